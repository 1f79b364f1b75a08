-- A text that grows by one part after another.
use Rattle.std.proofs.Common.{◌≡◌, ℕ, List, [], ◌++◌, sym, ap, ◌∙◌, append_assoc, append-nil, refl}

pub grown : (new mid old one two whole : List ℕ) → mid ≡ old ++ one → new ≡ mid ++ two → one ++ two ≡ whole → new ≡ old ++ whole
grown new mid old one two whole h k e = k ∙ ap (λ m. m ++ two) h ∙ append_assoc old one two ∙ ap (λ z. old ++ z) e

pub grown_by_three : (new b a old x y z : List ℕ) → a ≡ old ++ x → b ≡ a ++ y → new ≡ b ++ z → new ≡ old ++ (x ++ (y ++ (z ++ [])))
grown_by_three new b a old x y z h k l =
    grown new b old (x ++ y) z (x ++ (y ++ (z ++ []))) (grown b a old x y (x ++ y) h k refl) l
    (append_assoc x y z ∙ ap (λ t. x ++ (y ++ t)) (sym (append-nil z)))

pub grown_by_four : (new c b a old w x y z : List ℕ) → a ≡ old ++ w → b ≡ a ++ x → c ≡ b ++ y → new ≡ c ++ z → new ≡ old ++ (w ++ (x ++ (y ++ (z ++ []))))
grown_by_four new c b a old w x y z h k l m =
    grown_by_three new c b old (w ++ x) y z (grown b a old w x (w ++ x) h k refl) l m
    ∙ ap (λ t. old ++ t) (append_assoc w x (y ++ (z ++ [])))
