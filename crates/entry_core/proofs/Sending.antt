-- A login goes on message by message.
use Rattle.std.proofs.Common.{◌≡◌, ℕ, List, [], ◌++◌, Option, Some, refl, sym, ap, subst, ◌∙◌, append_assoc, append-nil}
use Rattle.std.proofs.KnownBytes.{Consumes-trans}
use Rattle.std.specs.Io.KnownBytes.{Consumes}
use Rattle.base_core.specs.declared.name.User.{User}
use Rattle.base_core.specs.declared.name.Name.{Name}
use Rattle.login_core.specs.Users.{Users}
use Rattle.login_core.specs.Login.{Beginning, LogsIn}
use Rattle.lines_core.specs.Serving.{Traffic, traffic_of}
use Rattle.entry_core.specs.Naming.{user_named}
use Rattle.entry_core.specs.Steps.{BeginsLogin}
use Rattle.entry_core.specs.Proved.{HasClaimed, HasAsked, ProvesUser, HasProved, startup_message, login_message}

pub claimed_by : (sent : List ℕ) (parameters : List (List ℕ × List ℕ)) (user : Name) → user_named parameters ≡ Some user
    → HasClaimed (sent ++ startup_message parameters) user
claimed_by sent parameters user named = record { before = sent; parameters = parameters; said = refl; names = named }

module _ (users : Users) (secret own : List ℕ) where
  pub asked_by : (sent body : List ℕ) (user : Name) (begun : Beginning) → HasClaimed sent user
      → BeginsLogin users secret own user body begun → begun.user ≡ user
      → HasAsked users secret own (sent ++ login_message body) begun
  asked_by sent body user begun claimed begins is =
      record {
        before = sent;
        body = body;
        said = refl;
        claimed = subst (λ n. HasClaimed sent n) (sym is) claimed;
        begins = subst (λ n. BeginsLogin users secret own n body begun) (sym is) begins;
      }

  pub proved_by : (sent body answer : List ℕ) (begun : Beginning) (user : Name) → HasAsked users secret own sent begun
      → user ≡ begun.user → LogsIn users begun body answer
      → ProvesUser users secret own (sent ++ login_message body) user
  proved_by sent body answer begun user asked is proves =
      record {
        begun = begun;
        user_is = sym is;
        before = sent;
        body = body;
        behind = [];
        said = sym (append-nil (sent ++ login_message body));
        asked = asked;
        answer = answer;
        proves = proves;
      }

  pub proved_on : (sent more : List ℕ) (user : Name) → ProvesUser users secret own sent user
      → ProvesUser users secret own (sent ++ more) user
  proved_on sent more user has =
      record {
        begun = has.begun;
        user_is = has.user_is;
        before = has.before;
        body = has.body;
        behind = has.behind ++ more;
        said = ap (λ (bytes : List ℕ). bytes ++ more) has.said ∙ append_assoc (has.before ++ login_message has.body) has.behind more;
        asked = has.asked;
        answer = has.answer;
        proves = has.proves;
      }

  pub proved_session : (sent : List ℕ) (traffic : Traffic) (user : User) → ProvesUser users secret own sent user.0
      → Consumes traffic.left traffic.left' sent → HasProved users secret own traffic user
  proved_session sent traffic user proves read = record { sent = sent; read = read; proves = proves }

  pub session_on : (user : User) (more : List ℕ) (left0 left1 left2 taken0 taken1 later : Option (List ℕ))
      → HasProved users secret own (traffic_of left0 left1 taken0 taken1) user
      → Consumes left1 left2 more
      → HasProved users secret own (traffic_of left0 left2 taken0 later) user
  session_on user more left0 left1 left2 taken0 taken1 later has read =
      proved_session (has.sent ++ more) (traffic_of left0 left2 taken0 later) user (proved_on has.sent more user.0 has.proves)
      (Consumes-trans left0 left1 left2 has.sent more has.read read)
