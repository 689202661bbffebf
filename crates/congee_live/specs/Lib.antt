pub use Rattle.live_faces.specs.Returned
pub use Rattle.live_nodes.specs.Known
pub use Rattle.live_nodes.specs.Views
pub use Rattle.live_payloads.specs.Payloads
pub use Rattle.share_laws.specs.Keys
pub use Rattle.share_rule.specs.History
