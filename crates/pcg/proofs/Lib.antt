-- Laws of the solves over lent tables.
pub mod Moving
