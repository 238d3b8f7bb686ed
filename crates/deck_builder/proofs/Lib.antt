mod StatementRules
mod ValueRules
mod LayerRules
mod CheckRules
mod InfixRules
mod DistanceRules
mod ListSteps
