-- Behind them t are laid.
use Rattle.std.proofs.Common.{◌≡◌, ℕ, ◌+◌, ◌<◌, length, slice_index}
use Rattle.boxes.proofs.double.Given as goal

abbrev pub invariant-loop-t : goal.invariant-loop-t
invariant-loop-t l = (length l.rest ≡ length l.initial.rest) × ((u : ℕ) → u < l.t → slice_index l.rest u ≡ slice_index l.x-items u + l.more)
