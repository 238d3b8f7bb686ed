pub mod Results
pub mod Reports
pub mod Making
pub mod Contents
pub mod Working
