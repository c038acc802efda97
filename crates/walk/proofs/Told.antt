-- What is told of a walk leads back to it, so that what is told alike is the same. Assumes nothing.
use Rattle.std.proofs.Common.{◌≡◌, ℕ, Result, Ok, Err, ◌-◌, length, replicate, take, refl, ap, sym, ◌∙◌}
use Rattle.std.proofs.Math.Seq.{take-append_seam}
use Rattle.protocol.specs.Refusal.{number, answer_of}
use Rattle.protocol.specs.Walk.{Walked, refused_walk}
use Rattle.protocol.specs.declared.refusal.Refusal.{Refusal}
use Rattle.protocol.proofs.Numbers.{giving, refused_back}
use Rattle.walk.specs.Told.{told_walk, OneWalk}
use Rattle.walk.specs.declared.met.Walk.{Walk}

-- the keys in front of the zeros
abbrev met : Walked → Walk
met o = record { keys = record { items = take o.count o.keys }; lookups = o.lookups }

abbrev back : Walked → Result Walk Refusal
back o = giving (met o) (answer_of o.answer)

told_back : (r : Result Walk Refusal) → back (told_walk r) ≡ r
told_back (Ok w) =
    ap (λ keys. Ok (record { keys = record { items = keys }; lookups = w.lookups })) (take-append_seam w.keys.items (replicate (16 - length w.keys.items) 0))
told_back (Err r) = refused_back (met (refused_walk (number r))) r

pub one_walk : OneWalk
unfolding OneWalk
one_walk m key a b e f = sym (told_back a) ∙ ap back (e ∙ sym f) ∙ told_back b
