pub mod RootLemmas
pub mod DropLemmas
