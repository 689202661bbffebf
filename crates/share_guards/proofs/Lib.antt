pub mod KeyList
pub mod ManyInserted
pub mod OwnerEnds
pub mod Replies
