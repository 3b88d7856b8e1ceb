use Rattle.std.proofs.Common.{◌≡◌, ℕ, List, sym, ap, ◌∙◌, arith}
use Rattle.std.specs.Prelude.{sum}
use Rattle.rm_base.specs.declared.snapshot.Looked.{Looked}
use Rattle.workload.proofs.Standing.{SizesSeen, sizes-seen}
use Rattle.workload.proofs.lone.Lone.free.Goals as goal

pub sum_of-kept_back-requires : goal.sum_of-kept_back-requires
sum_of-kept_back-requires c =
    let h = sizes-seen c.args.self.now c.self.inside.desk.state c.self.view_is c.entries-entries.ensures.healthy c.self.invariant c.requires in
    let all = ap sum c.as_slice.ensures ∙ ap (λ (x : Looked). sum x.snapshot.actual) c.in_ok-looked.ensures.looked in
    omega (arith, all, h.sizes, h.within, h.most)

pub overflow_sub-result : goal.overflow_sub-result
overflow_sub-result c =
    let h = sizes-seen c.args.self.now c.self.inside.desk.state c.self.view_is c.entries-entries.ensures.healthy c.self.invariant c.requires in
    let all = ap sum c.as_slice.ensures ∙ ap (λ (x : Looked). sum x.snapshot.actual) c.in_ok-looked.ensures.looked in
    let force = ap {B = ℕ} (λ (x : Looked). x.snapshot.in_force) c.in_ok-looked.ensures.looked in
    omega (arith, all, force, c.sum_of-kept_back.ensures, h.sizes, h.in_force, h.within)

pub returns-clause-general : goal.returns-clause-general
returns-clause-general c =
    let h = sizes-seen c.args.self.now c.self.inside.desk.state c.self.view_is c.entries-entries.ensures.healthy c.self.invariant c.requires in
    let all = ap sum c.as_slice.ensures ∙ ap (λ (x : Looked). sum x.snapshot.actual) c.in_ok-looked.ensures.looked in
    let force = ap {B = ℕ} (λ (x : Looked). x.snapshot.in_force) c.in_ok-looked.ensures.looked in
    omega (arith, all, force, c.sum_of-kept_back.ensures, h.sizes, h.in_force, h.free_is)

pub returns-clause-unreserved : goal.returns-clause-unreserved
returns-clause-unreserved c =
    let h = sizes-seen c.args.self.now c.self.inside.desk.state c.self.view_is c.entries-entries.ensures.healthy c.self.invariant c.requires in
    let all = ap sum c.as_slice.ensures ∙ ap (λ (x : Looked). sum x.snapshot.actual) c.in_ok-looked.ensures.looked in
    let force = ap {B = ℕ} (λ (x : Looked). x.snapshot.in_force) c.in_ok-looked.ensures.looked in
    omega (arith, all, force, c.sum_of-kept_back.ensures, h.sizes, h.in_force)
