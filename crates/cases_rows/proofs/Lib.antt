pub mod GivenSteps
