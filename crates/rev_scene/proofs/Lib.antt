pub mod SceneLemmas
pub mod SceneProof
