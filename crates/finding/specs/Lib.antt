-- A search call with the text of what it finds.
pub mod Finding
