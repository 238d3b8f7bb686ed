mod Lists
mod OpenedMore
pub mod OneFact
mod Taking
