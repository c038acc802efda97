-- A queue that a view has joined, and one that its head has left: what stands where, and how often. Assumes nothing.
use Prim.Native.Nat.{ℕ, suc, ◌+◌, ◌≤◌, ◌<◌}
use mathlib.Core.Path.{◌≡◌, sym, ap, ◌∙◌}
use mathlib.Core.Logic.{◌≢◌}
use mathlib.Core.List.{List, [], ◌∷◌, ◌++◌}
use native.Mathlib.Omega.{arith}
use lib.ListN.{length, get_or, set, take, drop, length-set, length-append, length-drop, get_or-append}
use lib.Seq.{get_or-drop, get_or-append_seam, get_or-set_other, take-append-le, take-suc-set}
use borrow.Author.Tests.{eq-eqb, ne_eqb}
use Rattle.std.proofs.Common.{rules}
use Rattle.protocol.specs.Words.{times}
use Rattle.unbroken.proofs.Laws.Counting.{times_last}
use Rattle.protocol.specs.Slots.{standing}
use Rattle.protocol.specs.declared.Queue.{Queue}
use Rattle.protocol.specs.PostCheck.{left}
use Rattle.protocol.specs.Send.{joined}

module _ (q : Queue) (long : length q.views ≡ 16) where
  -- the head has left
  rest_long : length (drop 1 q.views) ≡ 15
  rest_long = let d = length-drop 1 q.views in omega arith

  pub left_long : length (left q).views ≡ 16
  left_long = let d = rest_long in let a = length-append (drop 1 q.views) (0 ∷ []) in omega arith

  pub left_at : (i : ℕ) → i < 15 → get_or (left q).views i 0 ≡ get_or q.views (1 + i) 0
  left_at i h = let d = rest_long in get_or-append (drop 1 q.views) (0 ∷ []) 0 i (omega arith) ∙ get_or-drop 1 q.views i 0

  pub left_end : get_or (left q).views 15 0 ≡ 0
  left_end = ap (λ (i : ℕ). get_or (left q).views i 0) (sym rest_long) ∙ get_or-append_seam (drop 1 q.views) 0 [] 0

  -- a view has joined
  pub joined_long : (v : ℕ) → length (joined q v).views ≡ 16
  joined_long v = length-set q.views q.len v ∙ long

  pub joined_at : (v i : ℕ) → i ≢ q.len → get_or (joined q v).views i 0 ≡ get_or q.views i 0
  joined_at v i n = get_or-set_other q.views q.len i v 0 n

  joined_standing : (v : ℕ) → q.len < 16 → standing (joined q v) ≡ standing q ++ (v ∷ [])
  joined_standing v h = let e : q.len + 1 ≡ suc q.len = omega arith in ap (λ (n : ℕ). take n (set q.views q.len v)) e ∙ take-suc-set q.views q.len v (omega arith)

pub joined_times : (q : Queue) → length q.views ≡ 16 → (u v : ℕ) → q.len < 16 → u ≢ v → times u (standing (joined q v)) ≡ times u (standing q)
joined_times q e u v f g = search (rules, joined_standing, times_last, ne_eqb)

pub joined_once : (q : Queue) → length q.views ≡ 16 → (v : ℕ) → q.len < 16 → times v (standing q) ≡ 0 → times v (standing (joined q v)) ≡ 1
joined_once q e v f g = search (rules, joined_standing, times_last, eq-eqb)

-- a view that isn't the head stands as often when the head has left
left_list : (u n : ℕ) (l : List ℕ) → length l ≡ 16 → suc n ≤ 16 → get_or l 0 0 ≢ u → times u (take n (drop 1 l ++ (0 ∷ []))) ≡ times u (take (suc n) l)
unfolding times
left_list u n l e f g = search (rules, ne_eqb, take-append-le)

pub left_times : (q : Queue) → length q.views ≡ 16 → (u : ℕ) → 1 ≤ q.len → q.len ≤ 16 → get_or q.views 0 0 ≢ u → times u (standing (left q)) ≡ times u (standing q)
left_times q e u f g h = search (rules, left_list)
