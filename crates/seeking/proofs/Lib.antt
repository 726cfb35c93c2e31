-- Laws of judging rows one after the other.
pub mod SeekLaws
