pub mod NeedLemmas
pub mod SayingLemmas
