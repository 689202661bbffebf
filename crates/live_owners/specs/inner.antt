pub mod Withdrawals
