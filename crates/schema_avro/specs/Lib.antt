pub mod Avro
pub mod AvroSpelling
pub mod AvroWriting
