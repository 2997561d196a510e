pub mod Facts
pub mod PlanTests
