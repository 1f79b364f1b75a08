-- What is answered where nothing waited.
use Rattle.std.proofs.Common.{◌≡◌, ℕ, List, [], ◌++◌, refl, sym, ap, ◌∙◌, subst}
use Rattle.base_core.specs.declared.name.Name.{Name}
use Rattle.messages_core.specs.declared.client.ClientMessage.{ClientMessage}
use Rattle.messages_core.specs.declared.client.ClientMessage.TheVariants as clients
use Rattle.session_core.specs.declared.admission.Admission.{Admission}
use Rattle.session_core.specs.declared.admission.Admission.TheVariants as admissions
use Rattle.sending_core.specs.declared.item.Item.{Item}
use Rattle.sending_core.specs.Queue.{Queue}
use Rattle.sending_core.specs.declared.problem.Problem.TheVariants as problems
use Rattle.conversation_core.specs.State.{ConversationState}
use Rattle.conversation_core.specs.Telling.{fatal_error}
use Rattle.wire_core.specs.State.{ClientAndQueue, ClientState, gone}
use Rattle.wire_core.specs.Entering.{EntersBy, IsNoLogin, LogsInBy, NotExpected, WhereLogin, left, login, no_login}

-- a client with this conversation
abbrev pub with_talk : ConversationState → ClientState → ClientState
with_talk talk old = record old { talk = talk }

-- what is neither is not expected
pub never : (message : ClientMessage) → ((body : List ℕ) → message ≡ clients.Password body → ⊥) → (message ≡ clients.Terminate → ⊥) → NotExpected message
never (clients.Password body) password terminate = password body refl
never clients.Terminate password terminate = terminate refl
never (clients.Bind bind) password terminate = tt
never (clients.Close target name) password terminate = tt
never (clients.Describe target name) password terminate = tt
never (clients.Execute portal most) password terminate = tt
never clients.Flush password terminate = tt
never (clients.Parse parse) password terminate = tt
never (clients.Query text) password terminate = tt
never clients.Sync password terminate = tt

-- where nobody has to log in
pub no_login_found : (admission : Admission) → ((file secret own : _) → admission ≡ admissions.Login file secret own → ⊥) → IsNoLogin admission
no_login_found admissions.Anyone none = tt
no_login_found (admissions.Known user) none = tt
no_login_found (admissions.Login file secret own) none = none file secret own refl

module _ (admission : Admission) (name : Name) (old : ClientState) (message : ClientMessage) where
  pub left_by : message ≡ clients.Terminate → EntersBy admission name old message [] (gone old)
  left_by is = subst (λ (m : ClientMessage). EntersBy admission name old m [] (gone old)) (sym is) left

  pub no_login_by : (body : List ℕ) → message ≡ clients.Password body → IsNoLogin admission
      → EntersBy admission name old message (fatal_error problems.NotExpected) (gone old)
  no_login_by body is none =
      subst (λ (m : ClientMessage). EntersBy admission name old m (fatal_error problems.NotExpected) (gone old)) (sym is) (no_login none)

  pub login_by : (body : List ℕ) (items : List Item) (new : ClientState) → message ≡ clients.Password body
      → WhereLogin admission (λ users secret own. LogsInBy users secret own name body old items new)
      → EntersBy admission name old message items new
  login_by body items new is by =
      subst (λ (m : ClientMessage). EntersBy admission name old m items new) (sym is) (login by)

module _ (P : ClientState → List Item → ClientState → Type 0) (inside args : ClientAndQueue) (view : inside ≡ args) where
  -- these items are the answer
  pub sent : (items answer : List Item) (new new' : ClientState) → items ≡ answer → new' ≡ new → P inside.state answer new → P args.state items new'
  sent items answer new new' is same h =
      subst (λ (z : ClientAndQueue). P z.state items new') view
      (subst (λ (n : ClientState). P inside.state items n) (sym same)
      (subst (λ (q : List Item). P inside.state q new) (sym is) h))

  -- they were added to none
  pub added : args.sending.items ≡ [] → (items answer : List Item) (new new' : ClientState) → items ≡ inside.sending.items ++ answer → new' ≡ new
      → P inside.state answer new → P args.state items new'
  added free items answer new new' is same h =
      sent items answer new new'
      (is ∙ ap (λ (q : List Item). q ++ answer) (ap (λ (z : ClientAndQueue). z.sending.items) view ∙ free)) same h

  -- nothing was added
  pub closed : args.sending.items ≡ [] → (sending : Queue) (talk talk' : ConversationState) → sending ≡ inside.sending → talk' ≡ talk
      → P inside.state [] (with_talk talk inside.state) → P args.state sending.items (with_talk talk' inside.state)
  closed free sending talk talk' is same h =
      sent sending.items [] (with_talk talk inside.state) (with_talk talk' inside.state)
      (ap (λ (q : Queue). q.items) is ∙ (ap (λ (z : ClientAndQueue). z.sending.items) view ∙ free))
      (ap (λ (t : ConversationState). with_talk t inside.state) same) h

  -- and the conversation stands so behind them
  pub talked : args.sending.items ≡ [] → (items answer : List Item) (talk talk' : ConversationState) → items ≡ inside.sending.items ++ answer → talk' ≡ talk
      → P inside.state answer (with_talk talk inside.state) → P args.state items (with_talk talk' inside.state)
  talked free items answer talk talk' is same h =
      added free items answer (with_talk talk inside.state) (with_talk talk' inside.state) is (ap (λ (t : ConversationState). with_talk t inside.state) same) h
