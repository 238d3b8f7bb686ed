-- Tokens: what a worker has in its hands.
use Rattle.std.specs.Prelude.{ℕ}

-- the worker, and the operation that it holds
pub record Holding : Type 0 where
  pub worker : ℕ
  pub op : ℕ

-- the same, with the number of places that it has released
pub record Releasing : Type 0 where
  pub worker : ℕ
  pub op : ℕ
  pub released : ℕ

-- copies of the layer of an operation: how many there are
pub record Stock : Type 0 where
  pub op : ℕ
  pub count : ℕ
