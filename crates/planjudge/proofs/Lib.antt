pub mod PlanLaws
pub mod PlanSteps
pub mod PlanLines
pub mod PlanWalks
pub mod PlanRight
