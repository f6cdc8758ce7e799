pub mod Ties
pub mod RecordTypeLaws
pub mod DnsClassLaws
pub mod TypeKeys
