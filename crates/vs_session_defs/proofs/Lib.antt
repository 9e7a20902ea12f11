mod SessionExample
mod EndingExamples
