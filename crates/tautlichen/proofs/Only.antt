-- Each promise has one result: two numbers that equal the same are equal, and then what is written by them is too. Assumes nothing.
use Prim.Native.Nat.{ℕ}
use mathlib.Core.Path.{◌≡◌, sym, ap, ◌∙◌}
use Rattle.protocol.specs.Lent.{lent}
use Rattle.tautlichen.specs.Only.{Determined, EveryExport}

determined : {A : Type 0} (number : ℕ) (written was : A) → Determined number written was
determined number written was n k x y p q r s =
    let same : n ≡ k = p ∙ sym r in
    (same, q ∙ ap (λ (i : ℕ). lent i written was) same ∙ sym s)

pub every_export : EveryExport
every_export =
    record {
      run = λ book answers n k x y p q r s. (p ∙ sym r, q ∙ sym s);
      list_answers = λ book answers text. determined _ _ _;
      list_text_holds = λ book answers text. determined _ _ _;
      list_len = λ book answers text len. determined _ _ _;
      drain_text_holds = λ book text. determined _ _ _;
      drain_len = λ book text len. determined _ _ _;
      drain_count = λ book text count. determined _ _ _;
      walk_keys = λ book key keys. determined _ _ _;
      walk_count = λ book key keys count. determined _ _ _;
      walk_lookups = λ book key keys lookups. determined _ _ _;
      lineage_text_holds = λ book key text. determined _ _ _;
      lineage_len = λ book key text len. determined _ _ _;
      pair_passes = λ book rule key passes. determined _ _ _;
    }
