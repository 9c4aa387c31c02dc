-- The replies of the rewrite and the fetch of locations.
-- Assumes nothing.
use Rattle.std.specs.Prelude.{ℕ, Bool, true, false, Option, Some, None, Result, Ok, Err, [], ◌∷◌}
use Rattle.refusal.specs.declared.Reason.{Reason}
use Rattle.refusal.specs.Number.{number_of}
use Rattle.location_rules.specs.declared.Rewritten.{Rewritten}
use Rattle.location_rules.specs.declared.Fetched.{Fetched}
use Rattle.item_row.specs.Reply.{Reply, reply}

-- the gate counts where one is given
abbrev pub gate_of : Bool → ℕ → Option ℕ
gate_of true gate = Some gate
gate_of false gate = None

-- the number of a reason, 0 where there is none
abbrev pub number_or_none : Option Reason → ℕ
number_or_none (Some r) = number_of r
number_or_none None = 0

-- rows replaced, rewritten count; a refusal leaves both
abbrev pub rewrite_reply : ℕ → Result Rewritten Reason → Reply
rewrite_reply count (Ok r) = reply 0 (r.replaced ∷ r.count ∷ [])
rewrite_reply count (Err r) = reply (number_of r) (0 ∷ count ∷ [])

-- place, length
abbrev pub fetch_reply : Result Fetched Reason → Reply
fetch_reply (Ok f) = reply 0 (f.place ∷ f.len ∷ [])
fetch_reply (Err r) = reply (number_of r) (0 ∷ 0 ∷ [])
