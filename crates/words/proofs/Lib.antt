pub mod MessagesLaws
pub mod RecordsLaws
pub mod RoundTrip
