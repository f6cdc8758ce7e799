pub mod CheckCalls
pub mod Inside
pub mod PutCalls
pub mod RecordCalls
pub mod RecordKeyCalls
pub mod SigningCalls
pub mod SumCalls
pub mod ZoneCalls
