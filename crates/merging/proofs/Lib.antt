pub mod Results
pub mod LastExpression
pub mod Searching
pub mod LeadingStep
pub mod LeadingItems
pub mod WorkedOn
pub mod NamesBehind
pub mod Declaring
