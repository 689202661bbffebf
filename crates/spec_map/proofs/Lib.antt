pub mod ByteMapLaws
pub mod JoinLaws
pub mod LocalLaws
pub mod MapLaws
pub mod NearLaws
pub mod RangeLaws
pub mod Runs
