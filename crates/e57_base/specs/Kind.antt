-- The kinds of faults, by name and number.
use Rattle.std.specs.Prelude.{ℕ, List, codes}
use Rattle.e57_base.specs.declared.kind.Kind.{Kind}
use Rattle.e57_base.specs.declared.kind.Kind.TheVariants.{FileLength, Signature, Version, PageSize, Page, XmlPlace, XmlLimit, XmlUtf8, Piece, Nest, TreeLimit, NodeType, NodeAttr, NodeChild, NodeName, Codecs, Prototype, FieldCount, Limits, RecordLimit, SectionPlace, SectionId, DataPlace, PacketLength, PacketType, DataShape, IndexShape, IndexOrder, IndexTarget, RestartUnindexed, StreamShort, ValueRange, StringLimit, BlobPlace, BlobId}

-- the name that output has
abbrev pub kind_name : Kind → List ℕ
kind_name FileLength = codes "FileLength"
kind_name Signature = codes "Signature"
kind_name Version = codes "Version"
kind_name PageSize = codes "PageSize"
kind_name Page = codes "Page"
kind_name XmlPlace = codes "XmlPlace"
kind_name XmlLimit = codes "XmlLimit"
kind_name XmlUtf8 = codes "XmlUtf8"
kind_name Piece = codes "Piece"
kind_name Nest = codes "Nest"
kind_name TreeLimit = codes "TreeLimit"
kind_name NodeType = codes "NodeType"
kind_name NodeAttr = codes "NodeAttr"
kind_name NodeChild = codes "NodeChild"
kind_name NodeName = codes "NodeName"
kind_name Codecs = codes "Codecs"
kind_name Prototype = codes "Prototype"
kind_name FieldCount = codes "FieldCount"
kind_name Limits = codes "Limits"
kind_name RecordLimit = codes "RecordLimit"
kind_name SectionPlace = codes "SectionPlace"
kind_name SectionId = codes "SectionId"
kind_name DataPlace = codes "DataPlace"
kind_name PacketLength = codes "PacketLength"
kind_name PacketType = codes "PacketType"
kind_name DataShape = codes "DataShape"
kind_name IndexShape = codes "IndexShape"
kind_name IndexOrder = codes "IndexOrder"
kind_name IndexTarget = codes "IndexTarget"
kind_name RestartUnindexed = codes "RestartUnindexed"
kind_name StreamShort = codes "StreamShort"
kind_name ValueRange = codes "ValueRange"
kind_name StringLimit = codes "StringLimit"
kind_name BlobPlace = codes "BlobPlace"
kind_name BlobId = codes "BlobId"

-- the place in the list of kinds, from 1
abbrev pub kind_number : Kind → ℕ
kind_number FileLength = 1
kind_number Signature = 2
kind_number Version = 3
kind_number PageSize = 4
kind_number Page = 5
kind_number XmlPlace = 6
kind_number XmlLimit = 7
kind_number XmlUtf8 = 8
kind_number Piece = 9
kind_number Nest = 10
kind_number TreeLimit = 11
kind_number NodeType = 12
kind_number NodeAttr = 13
kind_number NodeChild = 14
kind_number NodeName = 15
kind_number Codecs = 16
kind_number Prototype = 17
kind_number FieldCount = 18
kind_number Limits = 19
kind_number RecordLimit = 20
kind_number SectionPlace = 21
kind_number SectionId = 22
kind_number DataPlace = 23
kind_number PacketLength = 24
kind_number PacketType = 25
kind_number DataShape = 26
kind_number IndexShape = 27
kind_number IndexOrder = 28
kind_number IndexTarget = 29
kind_number RestartUnindexed = 30
kind_number StreamShort = 31
kind_number ValueRange = 32
kind_number StringLimit = 33
kind_number BlobPlace = 34
kind_number BlobId = 35
