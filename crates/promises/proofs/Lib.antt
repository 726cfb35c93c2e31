-- That the promises are kept.
pub mod RefusalNumbers
pub mod CallLists
pub mod CLists
pub mod HostTexts
pub mod Longest
pub mod Kept
