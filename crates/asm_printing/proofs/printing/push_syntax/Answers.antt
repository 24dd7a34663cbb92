use Rattle.std.proofs.Common.{◌≡◌, ◌∙◌, ap, ℕ, List, ◌++◌, codes, length, append_assoc, arith}
use Rattle.std.proofs.lemmas.Result.{on_ok_weaker}
use Rattle.asm_forms.specs.declared.form.Form.{Form}
use Rattle.asm_forms.specs.declared.completer.Completer.{Completer}
use Rattle.asm_forms.specs.declared.items.FormItem.{FormItem}
use Rattle.asm_forms.specs.Rows.{row_of}
use Rattle.asm_lexemes.specs.declared.tokens.Token.{Token}
use Rattle.asm_printing.specs.SlotTexts.{predicate_text, mnemonic_text, spaced, operands_text, stop_text}
use Rattle.asm_printing.proofs.Rooms.{items_are_few}
use Rattle.asm_printing.proofs.printing.push_syntax.Goals as goal

-- A text behind one that was appended.
further : (old front b one two : List ℕ) → one ≡ old ++ front → two ≡ one ++ b → two ≡ old ++ (front ++ b)
further old front b one two e f = f ∙ ap (λ xs. xs ++ b) e ∙ append_assoc old front b

-- Four texts, one after the other.
appended : (old a b c d one two three new : List ℕ) → one ≡ old ++ a → two ≡ one ++ b → three ≡ two ++ c → new ≡ three ++ d
    → new ≡ old ++ (a ++ b ++ c ++ d)
appended old a b c d one two three new f g h i =
    further old (a ++ b ++ c) d three new (further old (a ++ b) c two three (further old a b one two f g) h) i

of_mnemonic : (old new : List ℕ) (f g : Form) (cs ds : List Completer) → f ≡ g → cs ≡ ds → new ≡ old ++ mnemonic_text f cs
    → new ≡ old ++ mnemonic_text g ds
of_mnemonic old new f g cs ds d e h = h ∙ ap (λ k. old ++ mnemonic_text k cs) d ∙ ap (λ k. old ++ mnemonic_text g k) e

of_operands : (target : ℕ) (old new : List ℕ) (is js : List FormItem) (ts us : List Token) → is ≡ js → ts ≡ us
    → new ≡ old ++ spaced (operands_text target is ts) → new ≡ old ++ spaced (operands_text target js us)
of_operands target old new is js ts us d e h =
    h ∙ ap (λ k. old ++ spaced (operands_text target k ts)) d ∙ ap (λ k. old ++ spaced (operands_text target js k)) e

pub push_operands-requires : goal.push_operands-requires
push_operands-requires c = omega (arith, ap length c.items.ensures.value, items_are_few c.row-2.result.now)

pub returns-clause-ok : goal.returns-clause-ok
returns-clause-ok c =
    let form = c.args.syntax.now.form in
    let completers = c.args.syntax.now.completers in
    let operands = c.args.syntax.now.operands in
    on_ok_weaker c.push_stop.result
    (appended c.args.out.now.items (codes "  " ++ predicate_text c.args.qp) (mnemonic_text form completers)
    (spaced (operands_text c.args.target (row_of form).items operands)) (stop_text c.args.stop)
    c.push_start.new.out.items c.push_mnemonic.new.out.items c.push_operands.new.out.items c.push_stop.new.out.items
    c.in_ok-push_start.ensures.ok
    (of_mnemonic c.push_start.new.out.items c.push_mnemonic.new.out.items c.row.result.now form c.completers.result.now completers
    c.row.ensures c.completers.ensures c.in_ok-push_mnemonic.ensures.ok)
    (of_operands c.args.target c.push_mnemonic.new.out.items c.push_operands.new.out.items c.items.result.now (row_of form).items
    c.operands.result.now operands (c.items.ensures.value ∙ ap (λ f. (row_of f).items) c.row-2.ensures) c.operands.ensures
    c.in_ok-push_operands.ensures.ok))
    c.push_stop.ensures.ok
