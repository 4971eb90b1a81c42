-- The tokens of printed conditions, and what is read of them.
use Rattle.std.proofs.Common.{◌≡◌, ℕ, zero, suc, ◌<◌, ◌≤◌, ◌∷◌, length, Ok, refl, ap, ◌∙◌, arith}
use Rattle.std.specs.Prelude.{codes}
use Rattle.mil_status.specs.Status.{name_of}
use Rattle.mil_status.specs.declared.bit.StatusBit.{StatusBit}
use Rattle.mil_status.specs.declared.bit.StatusBit.TheVariants.{MessageError, Instrumentation, ServiceRequest, Broadcast, Busy, Subsystem, Control, Terminal}
use Rattle.mil_message.specs.declared.outcome_test.OutcomeTest.TheVariants.{Failed, Silent, Bit}
use Rattle.frame_tree.specs.Tree.{Condition, asked, negated, both, either}
use Rattle.frame_tree.specs.Bounds.{operators}
use Rattle.frame_text.specs.Tokens.{lex}
use Rattle.frame_text.specs.Reading.{Tokens, ◌>>=◌, past}
use Rattle.frame_text.specs.Conditions.{Reader, condition_at, condition_from, condition_of, condition_word, below_at, name_at, pair_at}
use Rattle.frame_text.specs.PrintedConditions.{condition_text}
use Rattle.frame_text.proofs.Digits.{IsRun}
use Rattle.frame_text.proofs.Spelling.{Spells, word_spells, spaced_spells}

-- the name of a bit is a word, and reads back
abbrev IsName : StatusBit → Type 0
IsName b = (0 < length (name_of b)) × IsRun (name_of b) × ((ts : Tokens) → name_at (name_of b ∷ ts) ≡ Ok (b, ts))

names : (b : StatusBit) → IsName b
unfolding name_at
names MessageError = (omega arith, (refl, (refl, (refl, (refl, (refl, (refl, (refl, (refl, (refl, (refl, (refl, (refl, (refl, tt))))))))))))), λ ts. refl)
names Instrumentation = (omega arith, (refl, (refl, (refl, (refl, (refl, (refl, (refl, (refl, (refl, (refl, (refl, (refl, (refl, (refl, (refl, tt))))))))))))))), λ ts. refl)
names ServiceRequest = (omega arith, (refl, (refl, (refl, (refl, (refl, (refl, (refl, (refl, (refl, (refl, (refl, (refl, (refl, (refl, (refl, tt))))))))))))))), λ ts. refl)
names Broadcast = (omega arith, (refl, (refl, (refl, (refl, (refl, (refl, (refl, (refl, (refl, tt))))))))), λ ts. refl)
names Busy = (omega arith, (refl, (refl, (refl, (refl, tt)))), λ ts. refl)
names Subsystem = (omega arith, (refl, (refl, (refl, (refl, (refl, (refl, (refl, (refl, (refl, tt))))))))), λ ts. refl)
names Control = (omega arith, (refl, (refl, (refl, (refl, (refl, (refl, (refl, tt))))))), λ ts. refl)
names Terminal = (omega arith, (refl, (refl, (refl, (refl, (refl, (refl, (refl, (refl, tt)))))))), λ ts. refl)

-- the tokens of a condition, in front of others
abbrev pub condition_then : Condition → Tokens → Tokens
condition_then (asked Failed) ts = codes "fail" ∷ ts
condition_then (asked Silent) ts = codes "silent" ∷ ts
condition_then (asked (Bit b)) ts = codes "bit" ∷ name_of b ∷ ts
condition_then (negated c) ts = codes "not" ∷ condition_then c ts
condition_then (both a b) ts = codes "all" ∷ codes "(" ∷ condition_then a (condition_then b (codes ")" ∷ ts))
condition_then (either a b) ts = codes "any" ∷ codes "(" ∷ condition_then a (condition_then b (codes ")" ∷ ts))

open_spells : Spells (codes "(") (λ ts. codes "(" ∷ ts)
unfolding lex
open_spells = record { reads = λ rest e. refl }

close_spells : Spells (codes ")") (λ ts. codes ")" ∷ ts)
unfolding lex
close_spells = record { reads = λ rest e. refl }

pub condition_spells : (c : Condition) → Spells (condition_text c) (condition_then c)
unfolding condition_text
condition_spells (asked Failed) = word_spells (codes "fail") (omega arith) (refl, (refl, (refl, (refl, tt))))
condition_spells (asked Silent) = word_spells (codes "silent") (omega arith) (refl, (refl, (refl, (refl, (refl, (refl, tt))))))
condition_spells (asked (Bit b)) = let name = names b in spaced_spells (word_spells (codes "bit") (omega arith) (refl, (refl, (refl, tt)))) (word_spells (name_of b) name.0 name.1)
condition_spells (negated c) = spaced_spells (word_spells (codes "not") (omega arith) (refl, (refl, (refl, tt)))) (condition_spells c)
condition_spells (both a b) = spaced_spells (word_spells (codes "all") (omega arith) (refl, (refl, (refl, tt)))) (spaced_spells open_spells (spaced_spells (condition_spells a) (spaced_spells (condition_spells b) close_spells)))
condition_spells (either a b) = spaced_spells (word_spells (codes "any") (omega arith) (refl, (refl, (refl, tt)))) (spaced_spells open_spells (spaced_spells (condition_spells a) (spaced_spells (condition_spells b) close_spells)))

pair_back : (reader : Reader) (a b : Condition) (x y ts : Tokens) → reader x ≡ Ok (a, y) → reader y ≡ Ok (b, codes ")" ∷ ts) → pair_at reader (codes "(" ∷ x) ≡ Ok ((a, b), ts)
unfolding pair_at past
pair_back reader a b x y ts e h =
    ap (λ r. r >>= (λ p. reader p.1 >>= (λ q. past (codes ")") q.1 >>= (λ rest. Ok ((p.0, q.0), rest))))) e
    ∙ ap (λ r. r >>= (λ q. past (codes ")") q.1 >>= (λ rest. Ok ((a, q.0), rest)))) h

-- a printed condition reads back
pub condition_back : (c : Condition) (d : ℕ) → operators c ≤ d → (ts : Tokens) → condition_at d (condition_then c ts) ≡ Ok (c, ts)
unfolding condition_from condition_of condition_word below_at
condition_back (asked Failed) d l ts = refl
condition_back (asked Silent) d l ts = refl
condition_back (asked (Bit b)) d l ts = let name = names b in ap (λ r. r >>= (λ x. Ok (asked (Bit x.0), x.1))) (name.2 ts)
condition_back (negated c) zero l ts = absurd (omega (arith, l))
condition_back (negated c) (suc d) l ts = ap (λ r. r >>= (λ a. Ok (negated a.0, a.1))) (condition_back c d (omega (arith, l)) ts)
condition_back (both a b) zero l ts = absurd (omega (arith, l))
condition_back (both a b) (suc d) l ts =
    ap (λ r. r >>= (λ x. Ok (both x.0.0 x.0.1, x.1)))
    (pair_back (condition_at d) a b _ _ ts (condition_back a d (omega (arith, l)) (condition_then b (codes ")" ∷ ts))) (condition_back b d (omega (arith, l)) (codes ")" ∷ ts)))
condition_back (either a b) zero l ts = absurd (omega (arith, l))
condition_back (either a b) (suc d) l ts =
    ap (λ r. r >>= (λ x. Ok (either x.0.0 x.0.1, x.1)))
    (pair_back (condition_at d) a b _ _ ts (condition_back a d (omega (arith, l)) (condition_then b (codes ")" ∷ ts))) (condition_back b d (omega (arith, l)) (codes ")" ∷ ts)))

pub condition_grows : (c : Condition) (ts : Tokens) → length ts ≤ length (condition_then c ts)
condition_grows (asked Failed) ts = omega arith
condition_grows (asked Silent) ts = omega arith
condition_grows (asked (Bit b)) ts = omega arith
condition_grows (negated c) ts = omega (arith, condition_grows c ts)
condition_grows (both a b) ts = omega (arith, condition_grows a (condition_then b (codes ")" ∷ ts)), condition_grows b (codes ")" ∷ ts))
condition_grows (either a b) ts = omega (arith, condition_grows a (condition_then b (codes ")" ∷ ts)), condition_grows b (codes ")" ∷ ts))
