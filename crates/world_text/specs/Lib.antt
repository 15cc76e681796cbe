pub mod ScheduleText
pub mod ScheduleTable
pub mod ScheduleReading
pub mod ReportText
pub mod Named
