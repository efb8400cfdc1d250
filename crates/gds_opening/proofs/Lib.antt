mod CountingLemmas
mod CauseLemmas
mod MomentLemmas
