mod Lines
mod Reports
