-- Laws of `below` that other crates use with the samples of a rank.
-- Assumes nothing.
pub use Rattle.sample_passes.proofs.Counting.{one_if-most, one_below, none_below, below_length}
