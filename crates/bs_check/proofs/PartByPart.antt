-- The parts of an `overlap` are looked at one after another.
use Rattle.std.proofs.Common.{◌≡◌, ◌<◌, ◌+◌, ◌∙◌, ℕ, Bool, List, ◌∷◌, length, get_or, drop, refl, ap, subst, arith}
use Rattle.bs_tree.specs.declared.tree.NameId.{NameId}
use Rattle.bs_tree.specs.declared.tree.Stmt.{Stmt}
use Rattle.bs_tree.specs.Reads.{stmt_reads, stmt_writes}
use Rattle.bs_check.specs.declared.touches.Touches.{Touches}
use Rattle.bs_check.specs.Touches.{Seen, note, seen, size, IsBehind, IsFlagged, Noted, Follows, after_parts}
use Rattle.bs_check.proofs.Rows.{drop_item}

-- only the part that is looked at differs
record Turned (now turned : Touches) (k : ℕ) : Type 0 where
  same_seen : (name : NameId) → seen turned name ≡ seen now name
  same_size : size turned ≡ size now
  same_overlap : turned.overlap ≡ now.overlap
  part : turned.part ≡ k
  behind : (n : ℕ) → IsBehind now n → IsBehind turned n
  flagged : IsFlagged now → IsFlagged turned

turned_is : (now turned : Touches) (k : ℕ) → turned ≡ record now { part = k } → Turned now turned k
unfolding seen IsBehind IsFlagged
turned_is now turned k e = record {
  same_seen = λ name. rw e refl;
  same_size = rw e refl;
  same_overlap = rw e refl;
  part = rw e refl;
  behind = λ n h. rw e h;
  flagged = λ h. rw e h;
}

pub follows_next : (start now turned next : Touches) (k : ℕ) (reads writes : NameId → Bool) → Follows start now → turned ≡ record now { part = k } → Noted turned next reads writes → Follows start next
follows_next start now turned next k reads writes follows e noted =
    let t = turned_is now turned k e in
    record {
      size = noted.keeps.size ∙ t.same_size ∙ follows.size;
      overlap = noted.keeps.overlap ∙ t.same_overlap ∙ follows.overlap;
      behind = λ n l h. noted.keeps.behind n (rw (t.same_overlap, follows.overlap) l) (t.behind n (follows.behind n l h));
      flagged = λ h. noted.keeps.flagged (t.flagged (follows.flagged h));
    }

pub parts_next : (start now turned next : Touches) (k : ℕ) (xs : List Stmt) (i : ℕ) (x : Stmt) (name : NameId) (all : Seen) → i < length xs → x ≡ get_or xs i x → Follows start now → turned ≡ record now { part = k } →
    Noted turned next (λ n. stmt_reads n x) (λ n. stmt_writes n x) → name.0 < size start → after_parts name k (drop i xs) (seen now name) ≡ all → after_parts name (k + 1) (drop (i + 1) xs) (seen next name) ≡ all
parts_next start now turned next k xs i x name all h is follows e noted within rest =
    let t = turned_is now turned k e in
    let here : after_parts name k (x ∷ drop (i + 1) xs) (seen now name) ≡ all = subst (λ (ys : List Stmt). after_parts name k ys (seen now name) ≡ all) (drop_item xs i x x h is) rest in
    let inside : name.0 < size turned = omega (arith, t.same_size, follows.size) in
    let one : seen next name ≡ note k (stmt_reads name x) (stmt_writes name x) (seen now name) = noted.noted name inside ∙ ap (λ part. note part (stmt_reads name x) (stmt_writes name x) (seen turned name)) t.part ∙ ap (note k (stmt_reads name x) (stmt_writes name x)) (t.same_seen name) in
    rw one here
