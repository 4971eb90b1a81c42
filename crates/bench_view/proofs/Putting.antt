-- Lists to which parts were put, one behind the other.
use Rattle.std.proofs.Common.{◌≡◌, List, ◌++◌, ap, ◌∙◌, append_assoc}

pub two_put : {X : Type 0} (t0 t1 t2 a b : List X) → t1 ≡ t0 ++ a → t2 ≡ t1 ++ b → t2 ≡ t0 ++ (a ++ b)
two_put {X} t0 t1 t2 a b e1 e2 = e2 ∙ ap (λ (l : List X). l ++ b) e1 ∙ append_assoc t0 a b

pub three_put : {X : Type 0} (t0 t1 t2 t3 a b c : List X) → t1 ≡ t0 ++ a → t2 ≡ t1 ++ b → t3 ≡ t2 ++ c → t3 ≡ t0 ++ (a ++ (b ++ c))
three_put {X} t0 t1 t2 t3 a b c e1 e2 e3 = two_put t0 t1 t3 a (b ++ c) e1 (two_put t1 t2 t3 b c e2 e3)

pub four_put : {X : Type 0} (t0 t1 t2 t3 t4 a b c d : List X) → t1 ≡ t0 ++ a → t2 ≡ t1 ++ b → t3 ≡ t2 ++ c → t4 ≡ t3 ++ d → t4 ≡ t0 ++ (a ++ (b ++ (c ++ d)))
four_put {X} t0 t1 t2 t3 t4 a b c d e1 e2 e3 e4 = two_put t0 t1 t4 a (b ++ (c ++ d)) e1 (three_put t1 t2 t3 t4 b c d e2 e3 e4)

pub five_put : {X : Type 0} (t0 t1 t2 t3 t4 t5 a b c d e : List X) → t1 ≡ t0 ++ a → t2 ≡ t1 ++ b → t3 ≡ t2 ++ c → t4 ≡ t3 ++ d → t5 ≡ t4 ++ e → t5 ≡ t0 ++ (a ++ (b ++ (c ++ (d ++ e))))
five_put {X} t0 t1 t2 t3 t4 t5 a b c d e e1 e2 e3 e4 e5 = two_put t0 t1 t5 a (b ++ (c ++ (d ++ e))) e1 (four_put t1 t2 t3 t4 t5 b c d e e2 e3 e4 e5)
