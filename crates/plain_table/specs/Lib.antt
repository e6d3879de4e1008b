pub mod GrantSteps
