use Rattle.std.proofs.Common.{rules, ◌≡◌, ◌++◌, ◌^◌, ◌<◌, [], drop, codes, refl, ◌∙◌}
use Rattle.e57_layout.specs.Bytes.{low_bytes}
use Rattle.e57_layout.proofs.Laws.Numbers.{length-low_bytes, little-low_bytes}
use Rattle.e57_page_out.specs.HeaderBytes.{header_bytes}
use Rattle.e57_page_out.proofs.HeaderLaws.{header_of-written, header_fault-written}
use Rattle.e57_page_out.proofs.HeaderPieces.{fronted_none, fronted_next, header_fronted}
use Rattle.e57_page_out.proofs.header.write_header.Goals as goal

-- the page is the header's bytes and what stood behind them
written : (c : goal.After-write_at-7) → c.write_at-7.new.bytes ≡ header_bytes c.args.header.now ++ drop 48 c.args.page.now
written c =
    let h = c.args.header.now in
    let page = c.args.page.now in
    let x0 = fronted_next page [] (codes "ASTM-E57") c.as_slice.result.now 0 8 page c.write_at.new.bytes (fronted_none page) refl c.as_slice.ensures c.write_at.ensures.piece in
    let x1 = fronted_next page _ (low_bytes 4 1) c.to_le_bytes.result 8 4 c.write_at.new.bytes c.write_at-2.new.bytes x0 (length-low_bytes 4 1) (c.to_le_bytes.ensures ∙ little-low_bytes 4 1) c.write_at-2.ensures.piece in
    let x2 = fronted_next page _ (low_bytes 4 0) c.to_le_bytes-2.result 12 4 c.write_at-2.new.bytes c.write_at-3.new.bytes x1 (length-low_bytes 4 0) (c.to_le_bytes-2.ensures ∙ little-low_bytes 4 0) c.write_at-3.ensures.piece in
    let x3 = fronted_next page _ (low_bytes 8 h.length) c.to_le_bytes-3.result 16 8 c.write_at-3.new.bytes c.write_at-4.new.bytes x2 (length-low_bytes 8 h.length) (c.to_le_bytes-3.ensures ∙ little-low_bytes 8 h.length) c.write_at-4.ensures.piece in
    let x4 = fronted_next page _ (low_bytes 8 h.xml_place) c.to_le_bytes-4.result 24 8 c.write_at-4.new.bytes c.write_at-5.new.bytes x3 (length-low_bytes 8 h.xml_place) (c.to_le_bytes-4.ensures ∙ little-low_bytes 8 h.xml_place) c.write_at-5.ensures.piece in
    let x5 = fronted_next page _ (low_bytes 8 h.xml_length) c.to_le_bytes-5.result 32 8 c.write_at-5.new.bytes c.write_at-6.new.bytes x4 (length-low_bytes 8 h.xml_length) (c.to_le_bytes-5.ensures ∙ little-low_bytes 8 h.xml_length) c.write_at-6.ensures.piece in
    let x6 = fronted_next page _ (low_bytes 8 1024) c.to_le_bytes-6.result 40 8 c.write_at-6.new.bytes c.write_at-7.new.bytes x5 (length-low_bytes 8 1024) (c.to_le_bytes-6.ensures ∙ little-low_bytes 8 1024) c.write_at-7.ensures.piece in
    header_fronted h page c.write_at-7.new.bytes x6

pub returns-clause-bytes : goal.returns-clause-bytes
returns-clause-bytes c = written c

pub returns-clause-no_fault : goal.returns-clause-no_fault
returns-clause-no_fault c =
    let h = c.args.header.now in
    let below : h.length < 2 ^ 64 = search rules in
    rw (written c) (header_fault-written h (drop 48 c.args.page.now) below)

pub returns-clause-read : goal.returns-clause-read
returns-clause-read c =
    let h = c.args.header.now in
    let below : h.length < 2 ^ 64 = search rules in
    let below_too : h.xml_place < 2 ^ 64 = search rules in
    let below_three : h.xml_length < 2 ^ 64 = search rules in
    rw (written c) (header_of-written h (drop 48 c.args.page.now) below below_too below_three)
