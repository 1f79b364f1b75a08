-- Whoever is named has shown it.
use Rattle.std.proofs.Common.{◌++◌, ℕ, List, [], ◌∷◌, refl, ◌∙◌, ap}
use Rattle.std.proofs.lemmas.List.{append_assoc}
use Rattle.base_core.specs.declared.name.Name.{Name}
use Rattle.login_core.specs.Users.{Users}
use Rattle.login_core.specs.Exchange.{Standing, Exchange, HasBegun, HasShown}
use Rattle.login_core.specs.Exchange as l

-- what a standing says of the messages before it
abbrev pub Recalls : Users → List ℕ → List ℕ → List (List ℕ) → Standing → Type 0
Recalls users secret own messages (l.Named user) = HasShown users secret own messages user
Recalls users secret own messages (l.Asked begun) = HasBegun users secret own messages begun
Recalls users secret own messages _ = Unit {0}

pub still_shown : (users : Users) (secret own : List ℕ) (messages : List (List ℕ)) (message : List ℕ) (user : Name)
    → HasShown users secret own messages user → HasShown users secret own (messages ++ message ∷ []) user
still_shown users secret own messages message user shown =
    record {
      begun = shown.begun;
      user_is = shown.user_is;
      before = shown.before;
      message = shown.message;
      answer = shown.answer;
      behind = shown.behind ++ message ∷ [];
      among = ap (λ ms. ms ++ message ∷ []) shown.among
          ∙ append_assoc shown.before (shown.message ∷ shown.behind) (message ∷ []);
      begins = shown.begins;
      logs_in = shown.logs_in;
    }

pub named_has_shown : (users : Users) (secret own : List ℕ) (messages : List (List ℕ)) (standing : Standing)
    → Exchange users secret own messages standing → Recalls users secret own messages standing
named_has_shown users secret own _ _ l.nothing = tt
named_has_shown users secret own _ _ (l.more {messages} message run (l.asked begun opens)) =
    record {
      before = messages;
      opening = message;
      among = refl;
      opens = opens;
    }
named_has_shown users secret own _ _ (l.more {messages} message run (l.logged_in {answer = answer} begun logs_in)) =
    record {
      begun = begun;
      user_is = refl;
      before = messages;
      message = message;
      answer = answer;
      behind = [];
      among = refl;
      begins = named_has_shown users secret own messages (l.Asked begun) run;
      logs_in = logs_in;
    }
named_has_shown users secret own _ _ (l.more {messages} message run (l.said user)) =
    still_shown users secret own messages message user (named_has_shown users secret own messages (l.Named user) run)
named_has_shown users secret own _ _ (l.more message run (l.ended old)) = tt
