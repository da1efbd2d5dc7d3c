pub mod BenchCases
