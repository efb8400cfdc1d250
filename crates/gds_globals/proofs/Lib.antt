pub mod NameLemmas
pub mod FileLemmas
mod AskLemmas
mod EndingLemmas
mod LeastLemmas
mod RangeLemmas
mod PastLemmas
mod SelectLemmas
mod FirstNodeLemmas
mod NextNameLemmas
mod LookingLemmas
mod AnswerLemmas
pub mod SetLemmas
pub mod NewGlobalLemmas
mod PlantingLemmas
mod MayLemmas
mod SettingLemmas
mod ReadyLemmas
mod DraftingLemmas
mod CarryLemmas
mod DeepPathLemmas
mod DeepLemmas
mod CrashLemmas
mod CommittingLemmas
mod DifferLemmas
mod WithinLemmas
mod OwnTreeLemmas
mod KilledLemmas
mod DropLemmas
mod FirstLemmas
mod RootLemmas
mod TakingLemmas
mod KillReadyLemmas
mod BesideLemmas
mod KillEndingLemmas
