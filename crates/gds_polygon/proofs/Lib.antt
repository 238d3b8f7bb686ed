mod StepFacts
mod Around
