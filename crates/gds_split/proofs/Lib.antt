pub mod CutLemmas
pub mod LawfulLemmas
pub mod AboveLemmas
pub mod SizeLemmas
pub mod CountLemmas
pub mod TreeLemmas
pub mod RootLemmas
pub mod WrittenLemmas
