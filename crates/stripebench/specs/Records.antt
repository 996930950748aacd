-- RECORDS: what the first byte of a record says, as 01 has it. Assumes nothing.
use Rattle.std.specs.Prelude.{◌≡◌, Bool, true, false, ℕ, ◌≤◌, eqb, Option, Some, None, Result, MatchResult}
use Rattle.std.proofs.Common.{arith}
use Rattle.code.specs.Sum.{pick}
use Rattle.stripebench.specs.declared.records.Call.TheVariants.{Write, Rebuild, Scrub, Read}
use Rattle.stripebench.specs.declared.records.Action.{Action}
use Rattle.stripebench.specs.declared.records.Action.TheVariants.{Judge, Stripe}
use Rattle.stripebench.specs.declared.records.Record.{Record}
use Rattle.stripebench.specs.declared.records.UnknownKind.{UnknownKind}

abbrev pub known : ℕ → Action → Option Record
known length action = Some (record { length = length; action = action })

-- kind 1: n, r, s, then e in two bytes; 2: row, strip, offset in two bytes, value; 3: mask in eight bytes; 4: no body; 5: row, strip
abbrev pub record_of : ℕ → Option Record
record_of kind =
    pick (eqb kind 1) (known 5 Judge)
    (pick (eqb kind 2) (known 5 (Stripe Write))
    (pick (eqb kind 3) (known 8 (Stripe Rebuild))
    (pick (eqb kind 4) (known 0 (Stripe Scrub))
    (pick (eqb kind 5) (known 2 (Stripe Read)) None))))

-- the record of this kind, or an unknown kind as it is
abbrev pub Decodes : ℕ → Result Record UnknownKind → Type 0
Decodes kind r = MatchResult r (λ x. record_of kind ≡ Some x) (λ y. (record_of kind ≡ None) × (y.0 ≡ kind))

-- no body is longer than eight bytes
pub body_most : (kind : ℕ) (x : Record) → record_of kind ≡ Some x → x.length ≤ 8
body_most kind x = go (eqb kind 1) (eqb kind 2) (eqb kind 3) (eqb kind 4) (eqb kind 5)
  where
    short : (k : ℕ) (a : Action) → k ≤ 8 → known k a ≡ Some x → x.length ≤ 8
    short k a l q = let e : k ≡ x.length = cc in omega arith

    go : (t u v w y : Bool)
        → pick t (known 5 Judge) (pick u (known 5 (Stripe Write)) (pick v (known 8 (Stripe Rebuild)) (pick w (known 0 (Stripe Scrub)) (pick y (known 2 (Stripe Read)) None)))) ≡ Some x
        → x.length ≤ 8
    go true u v w y q = short 5 Judge (omega arith) q
    go false true v w y q = short 5 (Stripe Write) (omega arith) q
    go false false true w y q = short 8 (Stripe Rebuild) (omega arith) q
    go false false false true y q = short 0 (Stripe Scrub) (omega arith) q
    go false false false false true q = short 2 (Stripe Read) (omega arith) q
    go false false false false false q = absurd (let z : ◌≡◌ {A = ℕ} 0 1 = cc in omega arith)
