pub mod PutDown
