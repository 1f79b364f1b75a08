use Rattle.std.proofs.Common.{◌≡◌, ◌≢◌, ◌≤◌, ◌<◌, ◌-◌, ℕ, List, [], ◌∷◌, ◌++◌, take, length, true, false, nat_eq, slice_index_or, ap, ◌∙◌, arith, rules}
use Rattle.std.proofs.lemmas.List.{take_more}
use Rattle.std.proofs.lemmas.Bool.Decides.{nat_tests}
use Rattle.data_core.proofs.Placed.{known_written, known_nothing}
use Rattle.data_core.proofs.pieces.PiecesSink.write.Goals as goal

pub invariant_of-self : goal.invariant_of-self
invariant_of-self g c =
    let p = c.self.inside in
    let bytes : List ℕ = c.args.bytes.now in
    let n : ℕ = c.in-Ok.count in
    let some : 0 < n = search rules in
    let within : n ≤ length bytes = c.in-Ok.ensures.count in
    let last : ℕ = slice_index_or bytes (n - 1) 0 in
    let ends : take n bytes ≡ take (n - 1) bytes ++ last ∷ [] = ap (λ k. take k bytes) (omega arith) ∙ take_more bytes (n - 1) 0 (omega arith) in
    let goes_on : mathlib.Core.Bool.not (nat_eq last 10) ≡ true → last ≢ 10 = λ is same. (let is = is in let same = same in grind (arith, nat_tests)) in
    let ends_line : mathlib.Core.Bool.not (nat_eq last 10) ≡ false → last ≡ 10 = λ is. (let is = is in grind (arith, nat_tests)) in
    known_written g.D.Dumping.is_dump g.D.Dumping.none (g.F.Folder.state p.folder) (g.F.Folder.state c.write.new.self) (g.met.F.Folder.reached p.folder) p.place (take n bytes) (take (n - 1) bytes) last (mathlib.Core.Bool.not (nat_eq last 10)) ends goes_on ends_line c.self.invariant c.in-Ok.ensures.bytes

pub invariant_of-self-else-count-gt0 : goal.invariant_of-self-else-count-gt0
invariant_of-self-else-count-gt0 g c =
    let p = c.self.inside in
    let bytes : List ℕ = c.args.bytes.now in
    let none : c.in-Ok.count ≡ 0 = search rules in
    known_nothing g.D.Dumping.is_dump g.D.Dumping.none (g.F.Folder.state p.folder) (g.F.Folder.state c.write.new.self) (g.met.F.Folder.reached p.folder) (g.met.F.Folder.texts p.folder) p.place (take c.in-Ok.count bytes) (ap (λ n. take n bytes) none) c.self.invariant c.in-Ok.ensures.bytes
