pub mod CountLaws
pub mod SendLaws
pub mod RoundLaws
pub mod HearLaws
pub mod ClockLaws
