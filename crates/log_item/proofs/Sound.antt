-- What is read at a place is spelled there, within the limits.
-- Assumes nothing.
use Prim.Native.Nat.{ℕ, zero, suc, ◌+◌, ◌≤◌}
use mathlib.Core.Path.{◌≡◌, refl, sym, ap, ◌∙◌}
use mathlib.Core.List.{List, [], ◌∷◌, ◌++◌, append_assoc}
use native.Mathlib.Omega.{arith}
use lib.ListN.{length, take, drop, length-take, length-drop, take-append-drop}
use lib.Seq.{drop-drop}
use Rattle.log_item.specs.declared.Form.{Form}
use Rattle.log_item.specs.declared.LogItemContent.{LogItemContent}
use Rattle.log_item.specs.declared.LogItemContent.TheVariants as content
use Rattle.log_item.specs.declared.LogItem.{LogItem}
use Rattle.log_item.specs.declared.EntryIndex.{EntryIndex}
use Rattle.log_item.specs.Entries.{entries_of, type_of}
use Rattle.log_item.specs.Each.{Each, one}
use Rattle.log_item.specs.Each as every
use Rattle.log_item.specs.Limits.{RowFits}
use Rattle.log_item.specs.Spelling.{NumberIn, Spanned, spanned, Contents, no_entries, entries, clean, compact, put, delete, Tails, no_more, next, item}
use Rattle.words.specs.Place.{At, Found}
use Rattle.log_item.specs.ItemSpelled.{Asks, ItemSpelled}
use Rattle.log_item.specs.Pieces.{span}
use Rattle.log_item.specs.Reading.{command, put_at, key_value_of, first_index_of, entry_count_of, entry_indexes, head, tail, tails, one_item}
use Rattle.log_item.specs.Reading as reading
use Rattle.log_item.proofs.Holds.{Holds, holds, refuses, after, at_most, is}
use Rattle.words.proofs.Place.{join, at_nothing}
use Rattle.log_item.proofs.Numbers.{sound_byte, sound_number}
use Rattle.log_item.proofs.Complete.{tails_length}

-- What is spelled where n tails are read from the index i on.
pub record TailsSpelled (form : Form) (n i t : ℕ) (r : List EntryIndex × ℕ) (x : List ℕ) : Type 0 where
  pub tails : Tails (NumberIn form) n i r.0 t r.1 x
  pub each : Each RowFits r.0

-- A tail w from p up to q, with the total t before it, within the limits.
pub record TailSpelled (form : Form) (s : List ℕ) (t p w q : ℕ) : Type 0 where
  pub found : Found s (NumberIn form w) p q
  pub small : w ≤ 4294967295
  pub rises : t ≤ w

-- The entries that a content states, with e before them, are within the limits.
record Stated (e : ℕ) (c : LogItemContent) : Type 0 where
  few : e + (entries_of c).count ≤ 1024
  last : (entries_of c).first_index + (entries_of c).count ≤ 18446744073709551616

-- A content from p up to q, whose type is b, within the limits.
record Content (form : Form) (s : List ℕ) (e b p : ℕ) (c : LogItemContent) (q : ℕ) : Type 0 where
  found : Found s (Contents (NumberIn form) c p) p q
  kind : type_of c ≡ b
  stated : Stated e c

-- An item up to its tails.
record Head (form : Form) (s : List ℕ) (e p : ℕ) (x : LogItem) (q : ℕ) : Type 0 where
  group : List ℕ
  bytes : List ℕ
  at : At s p q (group ++ (type_of x.content ∷ bytes))
  number : NumberIn form x.raft_group_id group
  contents : Contents (NumberIn form) x.content (p + length group + 1) bytes
  stated : Stated e x.content

-- a span whose parts are given by equal terms
spanned_as : (N : ℕ → List ℕ → Type 0) {p a n : ℕ} {size : List ℕ} (bytes : List ℕ) → a ≡ p + length size → n ≡ length bytes → N n size
    → Spanned N (record { at = a; len = n }) p (size ++ bytes)
spanned_as N bytes e f h = rw (e, f) (spanned bytes (rw f at h))

module _ (form : Form) (s : List ℕ) (asks : Asks form s) where
  -- A span that is read is spelled.
  pub sound_span : (p : ℕ) → Holds (λ k q. Found s (Spanned (NumberIn form) k p) p q) (span form s p)
  unfolding span
  sound_span p =
      after (sound_number form s asks p) λ n a f.
      at_most (a + n) (length s) _ _ _ λ fits.
      let k : n ≡ length (take n (drop a s)) = omega (arith, length-take n (drop a s), length-drop a s) in
      let e : drop a s ≡ take n (drop a s) ++ drop (a + n) s = sym (take-append-drop n (drop a s)) ∙ ap (λ l. take n (drop a s) ++ l) (drop-drop n a s) in
      holds (record {
        bytes = f.bytes ++ take n (drop a s);
        at = join f.at (record { stand = e; ends = omega arith });
        has = spanned_as (NumberIn form) (take n (drop a s)) f.at.ends k f.has;
      })

  -- A tail that is read is spelled, and within the limits.
  pub sound_tail : (t p : ℕ) → Holds (λ w q. TailSpelled form s t p w q) (tail form s t p)
  unfolding tail
  sound_tail t p =
      after (sound_number form s asks p) λ w q f.
      at_most w 4294967295 _ _ _ λ small.
      at_most t w _ _ _ λ rises.
      holds (record { found = f; small = small; rises = rises })

  -- Tails that are read are spelled, with rows within the limits.
  pub sound_tails : (n i t p : ℕ) → i + n ≤ 18446744073709551616 → Holds (λ r q. Found s (TailsSpelled form n i t r) p q) (tails form s n i t p)
  unfolding tails
  sound_tails zero i t p h =
      holds (record { bytes = []; at = at_nothing p; has = record { tails = no_more; each = every.Each.none } })
  sound_tails (suc n) i t p h =
      after (sound_tail t p) λ w a f.
      after (sound_tails n (i + 1) w a (omega arith)) λ r q g.
      holds (record {
        bytes = f.found.bytes ++ g.bytes;
        at = join f.found.at g.at;
        has = record {
          tails = next f.found.has f.rises g.has.tails;
          each = one (record { index = omega arith; tail = omega (arith, f.rises, f.small) }) g.has.each;
        };
      })

  -- A count and the first index that is read after it are spelled.
  sound_first : (e n p a : ℕ) → Found s (NumberIn form n) p a → e + n ≤ 1024 → Holds (λ x q. Content form s e 1 p (content.EntryIndexes x) q) (first_index_of form s n a)
  unfolding first_index_of
  sound_first e zero p a f few =
      holds (record { found = record { bytes = f.bytes; at = f.at; has = no_entries f.has }; kind = refl; stated = record { few = few; last = omega arith } })
  sound_first e (suc n) p a f few =
      after (sound_number form s asks a) λ i q g.
      at_most (i + n) 18446744073709551615 _ _ _ λ small.
      holds (record {
        found = record { bytes = f.bytes ++ g.bytes; at = join f.at g.at; has = entries f.has g.has };
        kind = refl;
        stated = record { few = few; last = omega arith };
      })

  -- A count and first index that are read are spelled.
  sound_entries : (e p : ℕ) → Holds (λ x q. Content form s e 1 p (content.EntryIndexes x) q) (entry_indexes form s e p)
  unfolding entry_indexes entry_count_of
  sound_entries e p =
      after {P = λ n a. Found s (NumberIn form n) p a × (e + n ≤ 1024)} (after (sound_number form s asks p) λ n a f. at_most (e + n) 1024 _ _ _ λ few. holds (f, few))
      λ n a h. sound_first e n p a h.0 h.1

  -- A command that is read is spelled.
  sound_command : (p : ℕ) → Holds (λ c q. Found s (Contents (NumberIn form) (content.Command c) p) p q) (command form s p)
  unfolding command
  sound_command p =
      after (sound_byte s p) λ b a f.
      is b 1 _ _ _ (λ e. holds (record { bytes = 1 ∷ []; at = rw e at f; has = clean }))
      (is b 2 _ _ _ (λ e. after (sound_number form s asks a) λ i q g. holds (record { bytes = 2 ∷ g.bytes; at = join (rw e at f) g.at; has = compact g.has }))
      refuses)

  -- A put whose key and content are read behind its op is spelled.
  sound_put : (p a : ℕ) → At s p a (1 ∷ []) → Holds (λ k q. Found s (Contents (NumberIn form) (content.Kv k) p) p q) (put_at form s a)
  unfolding put_at
  sound_put p a f =
      after (sound_span a) λ k c g.
      after (sound_span c) λ v q h.
      holds (record {
        bytes = 1 ∷ (g.bytes ++ h.bytes);
        at = join f (join g.at h.at);
        has = put (rw f.ends at g.has) (rw (g.at.ends, f.ends) at h.has);
      })

  -- A put or a delete that is read is spelled.
  sound_key : (p : ℕ) → Holds (λ k q. Found s (Contents (NumberIn form) (content.Kv k) p) p q) (key_value_of form s p)
  unfolding key_value_of
  sound_key p =
      after (sound_byte s p) λ b a f.
      is b 1 _ _ _ (λ e. sound_put p a (rw e at f))
      (is b 2 _ _ _ (λ e. after (sound_span a) λ k q g.
      holds (record { bytes = 2 ∷ g.bytes; at = join (rw e at f) g.at; has = delete (rw f.ends at g.has) }))
      refuses)

  -- A content that is read is spelled, and has the type that was asked for.
  sound_content : (e b p : ℕ) → e ≤ 1024 → Holds (λ c q. Content form s e b p c q) (reading.content form s e b p)
  unfolding reading.content
  sound_content e b p small =
      is b 1 _ _ _ (λ x. after (sound_entries e p) λ c q f. holds (rw (← x) at f))
      (is b 2 _ _ _ (λ x. after (sound_command p) λ c q f. holds (record { found = f; kind = sym x; stated = record { few = omega arith; last = omega arith } }))
      (is b 3 _ _ _ (λ x. after (sound_key p) λ c q f. holds (record { found = f; kind = sym x; stated = record { few = omega arith; last = omega arith } }))
      refuses))

  -- An item up to its tails that is read is spelled.
  sound_head : (e p : ℕ) → e ≤ 1024 → Holds (λ x q. Head form s e p x q) (head form s e p)
  unfolding head
  sound_head e p small =
      after (sound_number form s asks p) λ g a f.
      after (sound_byte s a) λ b c h.
      after (sound_content e b c small) λ x q k.
      holds (record {
        group = f.bytes;
        bytes = k.found.bytes;
        at = join f.at (join (rw (← k.kind) at h) k.found.at);
        number = f.has;
        contents = rw (h.ends, f.at.ends) at k.found.has;
        stated = k.stated;
      })

  -- An item that is read, with e entries and the total t before it, is spelled, with rows within the limits.
  pub sound_item : (e t p : ℕ) → e ≤ 1024 → Holds (λ r q. Found s (ItemSpelled form e t p r) p q) (one_item form s e t p)
  unfolding one_item
  sound_item e t p small =
      after (sound_head e p small) λ x a f.
      after (sound_tails _ _ t a f.stated.last) λ r q g.
      holds (record {
        bytes = f.group ++ (type_of x.content ∷ (f.bytes ++ g.bytes));
        at = rw append_assoc at (join f.at g.at);
        has = record {
          spelled = item f.number f.contents g.has.tails;
          each = g.has.each;
          few = omega (arith, f.stated.few, tails_length g.has.tails);
        };
      })
