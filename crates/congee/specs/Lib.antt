pub use Rattle.congee_owned.specs.Stats
pub use Rattle.congee_owned.specs.Tree
pub use Rattle.congee_owned.specs.TreeCalls
pub use Rattle.face_runs.specs.Calls
pub use Rattle.face_runs.specs.Conversion
pub use Rattle.face_runs.specs.PayloadCalls
pub use Rattle.face_runs.specs.U64Calls
pub use Rattle.live_faces.specs.Returned
pub use Rattle.live_nodes.specs.Known as LiveKnown
pub use Rattle.live_nodes.specs.Views as LiveViews
pub use Rattle.live_payloads.specs.Payloads
pub use Rattle.share_backend.specs.Reads
pub use Rattle.share_calls.specs.Computed
pub use Rattle.share_faces.specs.Returned as SharedReturned
pub use Rattle.share_guards.specs.Operations
pub use Rattle.share_holds.specs.Moments
pub use Rattle.share_laws.specs.Keys
pub use Rattle.share_rule.specs.History
pub use Rattle.share_rule.specs.Known
pub use Rattle.share_sharded.specs.Counts
pub use Rattle.share_sharded.specs.Returned as ShardedReturned
pub use Rattle.share_visits.specs.Charged
pub use Rattle.share_works.specs.Ends
pub use Rattle.share_works.specs.Listed
pub use Rattle.share_works.specs.Made
pub use Rattle.spec_olc.specs.Meaning
pub use Rattle.spec_olc.specs.Runs
