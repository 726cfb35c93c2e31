-- Bytes put into a buffer.
--   Put   after what stood before place `at` come these bytes, up to place r; what comes after them may be anything
use Rattle.std.specs.Prelude.{◌≡◌, ℕ, ◌+◌, ◌++◌, length, take}
use Rattle.meaning.specs.Basics.{Bytes}

pub record Put (at : ℕ) (bytes before after : Bytes) (r : ℕ) : Type 0 where
  pub end : r ≡ at + length bytes
  pub front : take r after ≡ take at before ++ bytes
