pub mod AssuredLemmas
