mod Counters
mod ReportReads
mod Whole
