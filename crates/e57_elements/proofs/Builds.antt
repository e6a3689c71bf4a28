-- What the builder does is what the machine does.
use Rattle.std.proofs.Common.{◌≡◌, ℕ, ◌+◌, ◌-◌, ◌^◌, ◌<◌, ◌≤◌, Bool, true, false, cond, not, ◌&&◌, ltb, eqb, List, [], ◌∷◌, ◌++◌, length, get_or, set, Some, None, Result, Ok, Err, refl, sym, ap, subst, ◌∙◌, length-append, arith}
use Rattle.std.proofs.Math.Seq.{set-append_seam, get_or-append_seam}
use Rattle.std.specs.Str.{bytes_eq}
use Rattle.std.specs.Result.{IsErrAnd}
use Rattle.e57_pieces.specs.declared.piece.Attr.{Attr}
use Rattle.e57_pieces.specs.declared.piece.Piece.{Piece}
use Rattle.e57_pieces.specs.declared.piece.Piece.TheVariants.{Start, Empty, End, CData}
use Rattle.e57_elements.specs.declared.tree.RawNode.{RawNode}
use Rattle.e57_elements.specs.declared.builder.Mark.{Mark}
use Rattle.e57_elements.specs.declared.builder.Builder.{Builder}
use Rattle.e57_elements.specs.declared.builder.TakeFault.{TakeFault}
use Rattle.e57_elements.specs.declared.builder.TakeFault.TheVariants.{Nest, Limit, Memory}
use Rattle.e57_elements.specs.Tree.{Element, element, none, preorder, preorder_all}
use Rattle.e57_elements.specs.Nested.{only_space}
use Rattle.e57_elements.specs.Fault.{limit}
use Rattle.e57_elements.specs.Machine.{Open, State, reading, done, begin, with_text, ended, put, open_node, nodes_of}
use Rattle.e57_elements.specs.Builder.{Keeps, Takes, Admits, mark_of, marks_of, ended_node}
use Rattle.e57_elements.proofs.Within.{limit_none, limit_within}
use Rattle.e57_elements.proofs.Nodes.{put_nodes, put_marks, put_done, length-marks_of, ended_is}
use Rattle.e57_elements.proofs.Lists.{snoc_same, snoc_some}

-- ---- the node of an element that ends

pub end_node : (nodes before below : List RawNode) (node read : RawNode) (place len : ℕ) (text kept_text : List ℕ)
    → nodes ≡ before ++ node ∷ below → length before ≡ place → len ≡ length nodes → read ≡ get_or nodes place read
    → kept_text ≡ (cond (ltb 1 (len - place) && only_space text) [] text)
    → set nodes place (record { name = read.name; attrs = read.attrs; text = kept_text; size = len - place }) ≡ before ++ ended_node node below text ∷ below
end_node nodes before below node read place len text kept_text parts at_place is_len is_read is_kept =
    let new : RawNode = record { name = read.name; attrs = read.attrs; text = kept_text; size = len - place } in
    let e1 : set nodes place new ≡ set (before ++ node ∷ below) (length before) new = cc in
    let e2 = set-append_seam before node below new in
    let r : read ≡ node = is_read ∙ ap (λ ns. get_or ns place read) parts ∙ ap (λ i. get_or (before ++ node ∷ below) i read) (sym at_place) ∙ get_or-append_seam before node below read in
    let n : len - place ≡ length below + 1 = (let a = length-append before (node ∷ below) in let b = ap length parts in omega arith) in
    let t : kept_text ≡ (cond (ltb 1 (length below + 1) && only_space text) [] text) = is_kept ∙ ap (λ k. cond (ltb 1 k && only_space text) [] text) n in
    let v : new ≡ ended_node node below text = cc in
    e1 ∙ e2 ∙ ap (λ x. before ++ x ∷ below) v

-- ---- whether an element may begin

pub admits_limit : (s : State) (b : Builder) (n which : ℕ) → Keeps b s → b.done ≡ false
    → ((d p : ℕ) → d ≡ length b.marks.items + 1 → p ≡ length b.nodes.items + 1 → limit n d p ≡ Some which) → Admits {T = Unit {0}} s n (Err (Limit which))
admits_limit (reading opens) b n which h e l = l (length opens + 1) (length (nodes_of opens) + 1) (let f = ap length h.marks in let g = length-marks_of opens in omega arith) (let f = ap length h.nodes in omega arith)
admits_limit (done d) b n which h e l = let f = h.done in cc

pub admits_ok : (s : State) (b : Builder) (n : ℕ) → Keeps b s → b.done ≡ false → n ≤ 64 → length b.marks.items < 64 → length b.nodes.items < 2 ^ 20 → Admits {T = Unit {0}} s n (Ok tt)
admits_ok (reading opens) b n h e f g k =
    limit_none n (length opens + 1) (length (nodes_of opens) + 1) f
    (let m = ap length h.marks in let l = length-marks_of opens in omega arith) (let m = ap length h.nodes in omega arith)
admits_ok (done d) b n h e f g k = let l = h.done in cc

-- ---- tags

-- a tag that isn't admitted
pub start_refused : (s : State) (name : List ℕ) (attrs : List Attr) (stop : TakeFault) (new : Builder) → Admits {T = Unit {0}} s (length attrs) (Err stop) → Takes {T = Unit {0}} s (Start name attrs) (Err stop) new
start_refused (reading opens) name attrs Nest new h = absurd h
start_refused (reading opens) name attrs (Limit b) new h = (reading (begin name attrs ∷ opens), refl, h)
start_refused (reading opens) name attrs Memory new h = absurd h
start_refused (done e) name attrs Nest new h = refl
start_refused (done e) name attrs (Limit b) new h = absurd h
start_refused (done e) name attrs Memory new h = absurd h

pub empty_refused : (s : State) (name : List ℕ) (attrs : List Attr) (stop : TakeFault) (new : Builder) → Admits {T = Unit {0}} s (length attrs) (Err stop) → Takes {T = Unit {0}} s (Empty name attrs) (Err stop) new
empty_refused (reading opens) name attrs Nest new h = absurd h
empty_refused (reading opens) name attrs (Limit b) new h = (put (element name attrs [] none) opens, refl, h)
empty_refused (reading opens) name attrs Memory new h = absurd h
empty_refused (done e) name attrs Nest new h = refl
empty_refused (done e) name attrs (Limit b) new h = absurd h
empty_refused (done e) name attrs Memory new h = absurd h

start_opens : (s : State) (b new : Builder) (name : List ℕ) (attrs : List Attr) → Keeps b s → Admits {T = Unit {0}} s (length attrs) (Ok tt)
    → new.nodes.items ≡ b.nodes.items ++ (record { name = name; attrs = attrs; text = []; size = 0 }) ∷ []
    → new.marks.items ≡ b.marks.items ++ (record { place = length b.nodes.items; text = [] }) ∷ []
    → new.done ≡ b.done → Takes {T = Unit {0}} s (Start name attrs) (Ok tt) new
start_opens (reading opens) b new name attrs h a nodes marks is_open =
    let w = limit_within (length attrs) (length opens + 1) (length (nodes_of opens) + 1) a in (
      reading (begin name attrs ∷ opens),
      refl,
      a,
      record {
        nodes = nodes ∙ ap (λ ns. ns ++ (open_node (begin name attrs)) ∷ []) h.nodes;
        marks = marks ∙ ap (λ ms. ms ++ (record { place = length b.nodes.items; text = [] }) ∷ []) h.marks ∙ ap (λ ns. marks_of opens ++ (record { place = length ns; text = [] }) ∷ []) h.nodes;
        done = is_open ∙ h.done;
        few = (let l = length-append (nodes_of opens) (open_node (begin name attrs) ∷ []) in let p = w.place in omega arith);
      },
    )
start_opens (done e) b new name attrs h a nodes marks is_open = absurd a

pub start_takes : (s : State) (b new : Builder) (name : List ℕ) (attrs : List Attr) (n place : ℕ) (first text : List ℕ) → Keeps b s → Admits {T = Unit {0}} s n (Ok tt)
    → n ≡ length attrs → place ≡ length b.nodes.items → first ≡ [] → text ≡ []
    → new.nodes.items ≡ b.nodes.items ++ (record { name = name; attrs = attrs; text = first; size = 0 }) ∷ []
    → new.marks.items ≡ b.marks.items ++ (record { place = place; text = text }) ∷ []
    → new.done ≡ b.done → Takes {T = Unit {0}} s (Start name attrs) (Ok tt) new
start_takes s b new name attrs n place first text h a is_n is_place none_first none_text nodes marks is_open =
    start_opens s b new name attrs h (subst (λ k. Admits {T = Unit {0}} s k (Ok tt)) is_n a)
    (nodes ∙ ap (λ t. b.nodes.items ++ (record { name = name; attrs = attrs; text = t; size = 0 }) ∷ []) none_first)
    (marks ∙ ap (λ k. b.marks.items ++ (record { place = k; text = text }) ∷ []) is_place ∙ ap (λ t. b.marks.items ++ (record { place = length b.nodes.items; text = t }) ∷ []) none_text)
    is_open

-- an element is put
put_keeps : (e : Element) (opens : List Open) (new : Builder) → new.nodes.items ≡ nodes_of opens ++ preorder e → new.marks.items ≡ marks_of opens
    → new.done ≡ eqb (length new.marks.items) 0 → length (nodes_of opens ++ preorder e) ≤ 2 ^ 20 → Keeps new (put e opens)
put_keeps e opens new nodes marks is_done_now few =
    record {
      nodes = nodes ∙ sym (put_nodes e opens);
      marks = marks ∙ sym (put_marks e opens);
      done = is_done_now ∙ put_done e opens (length new.marks.items) (ap length marks);
      few = subst (λ ns. length ns ≤ 2 ^ 20) (sym (put_nodes e opens)) few;
    }

empty_puts : (s : State) (b new : Builder) (name : List ℕ) (attrs : List Attr) → Keeps b s → Admits {T = Unit {0}} s (length attrs) (Ok tt)
    → new.nodes.items ≡ b.nodes.items ++ (record { name = name; attrs = attrs; text = []; size = 1 }) ∷ []
    → new.marks.items ≡ b.marks.items → new.done ≡ eqb (length new.marks.items) 0 → Takes {T = Unit {0}} s (Empty name attrs) (Ok tt) new
empty_puts (reading opens) b new name attrs h a nodes marks is_done_now =
    let w = limit_within (length attrs) (length opens + 1) (length (nodes_of opens) + 1) a in (
      put (element name attrs [] none) opens,
      refl,
      a,
      put_keeps (element name attrs [] none) opens new (nodes ∙ ap (λ ns. ns ++ preorder (element name attrs [] none)) h.nodes) (marks ∙ h.marks) is_done_now
          (let l = length-append (nodes_of opens) (preorder (element name attrs [] none)) in let p = w.place in omega arith),
    )
empty_puts (done e) b new name attrs h a nodes marks is_done_now = absurd a

pub empty_takes : (s : State) (b new : Builder) (name : List ℕ) (attrs : List Attr) (n : ℕ) (first : List ℕ) → Keeps b s → Admits {T = Unit {0}} s n (Ok tt)
    → n ≡ length attrs → first ≡ []
    → new.nodes.items ≡ b.nodes.items ++ (record { name = name; attrs = attrs; text = first; size = 1 }) ∷ []
    → new.marks.items ≡ b.marks.items → new.done ≡ eqb (length new.marks.items) 0 → Takes {T = Unit {0}} s (Empty name attrs) (Ok tt) new
empty_takes s b new name attrs n first h a is_n none_first nodes marks is_done_now =
    empty_puts s b new name attrs h (subst (λ k. Admits {T = Unit {0}} s k (Ok tt)) is_n a)
    (nodes ∙ ap (λ t. b.nodes.items ++ (record { name = name; attrs = attrs; text = t; size = 1 }) ∷ []) none_first) marks is_done_now

-- what `!=` said of two names
pub same_names : (r : Bool) (x y a b : List ℕ) → r ≡ not (bytes_eq x y) → r ≡ false → x ≡ a → y ≡ b → bytes_eq a b ≡ true
same_names r x y a b e f p q = not_false (bytes_eq a b) (ap (λ z. not (bytes_eq z b)) (sym p) ∙ ap (λ z. not (bytes_eq x z)) (sym q) ∙ sym e ∙ f) where
  not_false : (t : Bool) → not t ≡ false → t ≡ true
  not_false true h = refl
  not_false false h = sym h

-- the last mark is that of the innermost open element
pub end_within : (s : State) (b : Builder) (rest : List Mark) (mark : Mark) → Keeps b s → b.marks.items ≡ rest ++ mark ∷ [] → mark.place < length b.nodes.items
end_within (reading []) b rest mark h e = absurd (snoc_some rest mark (sym h.marks ∙ e))
end_within (reading (top ∷ outer)) b rest mark h e =
    let r = snoc_same (marks_of outer) rest (mark_of top outer) mark (sym h.marks ∙ e) in
    let p : length (nodes_of outer) ≡ mark.place = ap (λ (m : Mark). m.place) r.1 in
    let l = length-append (nodes_of outer) (open_node top ∷ preorder_all top.children) in
    let n = ap length h.nodes in
    omega arith
end_within (done d) b rest mark h e = absurd (snoc_some rest mark (sym h.marks ∙ e))

-- the node at the last mark
end_read : (top : Open) (outer : List Open) (b : Builder) (mark : Mark) (read : RawNode) → Keeps b (reading (top ∷ outer)) → length (nodes_of outer) ≡ mark.place
    → read ≡ get_or b.nodes.items mark.place read → read ≡ open_node top
end_read top outer b mark read h p e =
    e ∙ ap (λ ns. get_or ns mark.place read) h.nodes ∙ ap (λ i. get_or (nodes_of outer ++ (open_node top ∷ preorder_all top.children)) i read) (sym p)
    ∙ get_or-append_seam (nodes_of outer) (open_node top) (preorder_all top.children) read

pub end_takes : (s : State) (b new : Builder) (rest : List Mark) (mark : Mark) (read : RawNode) (name : List ℕ) → Keeps b s → b.marks.items ≡ rest ++ mark ∷ []
    → read ≡ get_or b.nodes.items mark.place read → bytes_eq read.name name ≡ true
    → ((before : List RawNode) (node : RawNode) (below : List RawNode) → b.nodes.items ≡ before ++ node ∷ below → length before ≡ mark.place → new.nodes.items ≡ before ++ ended_node node below mark.text ∷ below)
    → new.marks.items ≡ rest → new.done ≡ eqb (length new.marks.items) 0 → Takes {T = Unit {0}} s (End name) (Ok tt) new
end_takes (reading []) b new rest mark read name h e at_place same ends marks is_done_now = absurd (snoc_some rest mark (sym h.marks ∙ e))
end_takes (reading (top ∷ outer)) b new rest mark read name h e at_place same ends marks is_done_now =
    let r = snoc_same (marks_of outer) rest (mark_of top outer) mark (sym h.marks ∙ e) in
    let n = end_read top outer b mark read h (ap (λ (m : Mark). m.place) r.1) at_place in
    let t : top.text ≡ mark.text = ap (λ (m : Mark). m.text) r.1 in
    let news = ends (nodes_of outer) (open_node top) (preorder_all top.children) h.nodes (ap (λ (m : Mark). m.place) r.1) in
    let nodes = news ∙ ap (λ u. nodes_of outer ++ ended_node (open_node top) (preorder_all top.children) u ∷ preorder_all top.children) (sym t) ∙ ap (λ ns. nodes_of outer ++ ns) (ended_is top) in (
      put (ended top) outer,
      ap (λ q. cond q (Some (put (ended top) outer)) None) (ap (λ (x : RawNode). bytes_eq x.name name) (sym n) ∙ same),
      refl,
      put_keeps (ended top) outer new nodes (marks ∙ sym r.0) is_done_now
          (let l = length-append (nodes_of outer) (open_node top ∷ preorder_all top.children) in let m = length-append (nodes_of outer) (preorder (ended top)) in let f = h.few in omega arith),
    )
end_takes (done d) b new rest mark read name h e at_place same ends marks is_done_now = absurd (snoc_some rest mark (sym h.marks ∙ e))

-- ---- text

-- the last mark with more text
last_mark : (marks : List Mark) (last read : Mark) (text : List ℕ) → read ≡ get_or (marks ++ last ∷ []) (length (marks ++ last ∷ []) - 1) read
    → set (marks ++ last ∷ []) (length (marks ++ last ∷ []) - 1) (record { place = read.place; text = read.text ++ text }) ≡ marks ++ (record { place = last.place; text = last.text ++ text }) ∷ []
last_mark marks last read text e =
    let n : length (marks ++ last ∷ []) - 1 ≡ length marks = (let l = length-append marks (last ∷ []) in omega arith) in
    let r : read ≡ last = e ∙ ap (λ i. get_or (marks ++ last ∷ []) i read) n ∙ get_or-append_seam marks last [] read in
    ap (λ i. set (marks ++ last ∷ []) i (record { place = read.place; text = read.text ++ text })) n
    ∙ set-append_seam marks last [] (record { place = read.place; text = read.text ++ text })
    ∙ ap (λ (m : Mark). marks ++ (record { place = m.place; text = m.text ++ text }) ∷ []) r

pub text_takes : (s : State) (b new : Builder) (len : ℕ) (read : Mark) (text grown : List ℕ) → Keeps b s → len ≡ length b.marks.items → 0 < len → read ≡ get_or b.marks.items (len - 1) read
    → grown ≡ read.text ++ text → new.nodes.items ≡ b.nodes.items → new.marks.items ≡ set b.marks.items (len - 1) (record { place = read.place; text = grown }) → new.done ≡ b.done
    → Takes {T = Unit {0}} s (CData text) (Ok tt) new
text_takes (reading []) b new len read text grown h l some at_last is_grown nodes marks is_open = absurd (let m = ap length h.marks in omega arith)
text_takes (reading (top ∷ outer)) b new len read text grown h l some at_last is_grown nodes marks is_open =
    let ms : List Mark = marks_of outer ++ mark_of top outer ∷ [] in
    let n : len ≡ length ms = l ∙ ap length h.marks in
    let at : read ≡ get_or ms (length ms - 1) read = at_last ∙ ap (λ xs. get_or xs (len - 1) read) h.marks ∙ ap (λ k. get_or ms (k - 1) read) n in
    let new_marks = marks ∙ ap (λ xs. set xs (len - 1) (record { place = read.place; text = grown })) h.marks
    ∙ ap (λ k. set ms (k - 1) (record { place = read.place; text = grown })) n ∙ ap (λ t. set ms (length ms - 1) (record { place = read.place; text = t })) is_grown
    ∙ last_mark (marks_of outer) (mark_of top outer) read text at in
    (reading (with_text text top ∷ outer), refl, refl, record { nodes = nodes ∙ h.nodes; marks = new_marks; done = is_open ∙ h.done; few = h.few })
text_takes (done d) b new len read text grown h l some at_last is_grown nodes marks is_open = absurd (let m = ap length h.marks in omega arith)

-- ---- what `?` hands on

pub refusal_on : (s : State) (piece : Piece) (r : Result (Unit {0}) TakeFault) (stop : TakeFault) (new : Builder) → IsErrAnd r (λ e. e ≡ stop) → Takes {T = Unit {0}} s piece (Err stop) new → Takes s piece r new
refusal_on s piece (Ok x) stop new h t = absurd h
refusal_on s piece (Err e) stop new h t = subst (λ x. Takes {T = Unit {0}} s piece (Err x) new) (sym h) t
