-- What it means that a contract leaves no second answer. Each crate's proofs/Determined.antt proves it of its public functions.
-- Assumes nothing.
use Rattle.std.specs.Prelude.{ℕ, List}
use contract.Lifetimes.{Lfts}
use denote.Triple.Clauses.{AtExit}
use borrow.Fn.Kinds.{ParamKind, ResultKind, Out, Dens, res_t, ended_of}

-- n, ps and r are the lifetimes, parameters and result of a function, Post is its contract's promise.
-- Where two results x and y, with what is lent at exit s and t, both keep the promise at the same arguments, Same holds of them.
abbrev pub OneAnswer : (n : ℕ) (ps : List (ParamKind n)) (r : ResultKind n) → Out n ps r
    → ((κs : Lfts n) (x y : (res_t r κs).Denot) (s t : AtExit (ended_of n ps r) κs) → Type 0) → Type 0
OneAnswer n ps r Post Same =
    (κs : Lfts n) (a : Dens κs ps) (x y : (res_t r κs).Denot) (s t : AtExit (ended_of n ps r) κs)
    → Post κs a x s → Post κs a y t → Same κs x y s t
